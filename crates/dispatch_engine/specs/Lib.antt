pub mod outcome
pub mod limits
pub mod lanes
pub mod lemmas
pub mod work
