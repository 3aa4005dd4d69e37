pub mod DistinctLemmas
pub mod InOrderLemmas
pub mod NumeralLemmas
pub mod TravelTimeLemmas
