pub mod outcome
pub mod limits
pub mod lanes
