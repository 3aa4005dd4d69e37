pub mod Sweeping
pub mod Laning
pub mod Marking
pub mod Rows
pub mod Beginning
pub mod Parts
