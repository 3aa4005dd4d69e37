pub mod Vehicle
pub mod Fleet
