pub mod HeardLemmas
