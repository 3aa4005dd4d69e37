pub mod Trip
pub mod Rows
