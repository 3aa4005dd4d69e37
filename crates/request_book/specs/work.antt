pub mod values
pub mod register
pub mod Stored
