pub mod GrownLevels
pub mod RowGrowth
pub mod Rule
pub mod Joined
pub mod StepBound
pub mod AllRows
