pub mod Block
pub mod Fits
pub mod Judged
pub mod BlockLists
