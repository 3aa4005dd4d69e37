pub mod script
pub mod made
pub mod live
pub mod fleet
pub mod lemmas
pub mod work
