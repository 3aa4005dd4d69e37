pub mod ArcLemmas
