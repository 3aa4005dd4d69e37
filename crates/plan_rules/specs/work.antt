pub mod DeadEnd
pub mod Plan
pub mod Rank
pub mod Graph
pub mod Size
