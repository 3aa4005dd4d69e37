pub mod Rows
pub mod Levels
pub mod Growth
pub mod Runs
pub mod Edges
