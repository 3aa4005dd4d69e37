pub mod Progress
pub mod Cutting
