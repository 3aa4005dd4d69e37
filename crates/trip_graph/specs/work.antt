pub mod vehicle
pub mod pairs
pub mod batch
