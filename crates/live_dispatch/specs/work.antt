-- What only the bodies of this crate need.
pub mod Closing
pub mod Rows
pub mod Standing
pub mod Telling
