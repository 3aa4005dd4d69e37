pub mod Named
pub mod Rest
