pub mod Level
pub mod TripGrowth
