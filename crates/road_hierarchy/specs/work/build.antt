pub mod Turns
pub mod Checked
pub mod Labels
