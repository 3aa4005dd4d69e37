pub mod Orders
pub mod Trips
pub mod Moves
pub mod Refusals
pub mod Nodes
pub mod Verdict
