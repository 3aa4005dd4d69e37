pub mod Named
pub mod Register
pub mod Closing
