pub mod Fault
pub mod Place
pub mod Report
pub mod Types
