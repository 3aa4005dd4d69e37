pub mod script
pub mod made
pub mod fleet
