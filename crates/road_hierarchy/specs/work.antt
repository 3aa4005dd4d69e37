pub mod sweeps
pub mod build
pub mod table
