pub mod LeftLemmas
pub mod MoveLemmas
pub mod PointLemmas
pub mod TripLemmas
