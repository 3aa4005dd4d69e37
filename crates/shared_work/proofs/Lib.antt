pub mod Sums
pub mod Keeps
pub mod Ended
pub mod Placing
