pub mod Sweep
pub mod Lanes
pub mod Marks
