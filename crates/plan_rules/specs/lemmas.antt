pub mod Plan
pub mod DeadEnd
pub mod Tree
pub mod Rank
pub mod Graph
pub mod GraphFault
