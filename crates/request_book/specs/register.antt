pub mod Sealing
pub mod Closing
pub mod Step
