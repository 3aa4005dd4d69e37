pub mod RowOrder
pub mod GraphSteps
pub mod MoreRows
pub mod LevelSteps
pub mod Runs
pub mod GraphFaults
pub mod SingleEdges
