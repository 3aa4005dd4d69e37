pub mod Keyed
pub mod Rider
pub mod State
pub mod Command
pub mod Vehicle
pub mod Batch
pub mod Kept
