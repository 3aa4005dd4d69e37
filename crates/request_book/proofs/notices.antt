pub mod ToldLemmas
pub mod SteadyLemmas
pub mod NoticeLemmas
