pub mod Block
pub mod Judged
pub mod BlockLists
