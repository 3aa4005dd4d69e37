pub mod Cell
pub mod script
pub mod made
pub mod live
pub mod fleet
