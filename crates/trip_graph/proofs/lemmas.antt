pub mod vehicle
pub mod pairs
