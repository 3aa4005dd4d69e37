pub mod Hierarchy
pub mod work
