pub mod Crew
pub mod Lanes
