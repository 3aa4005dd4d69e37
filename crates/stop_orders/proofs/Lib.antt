pub mod lemmas
pub mod PairLemmas
pub mod TripLemmas
pub mod Common
