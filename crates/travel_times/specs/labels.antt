pub mod Rank
pub mod Label
pub mod Labels
pub mod Fault
