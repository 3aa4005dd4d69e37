pub mod Lines
pub mod Rows
pub mod Start
pub mod AsScript
