pub mod Counted
pub mod Values
pub mod work
