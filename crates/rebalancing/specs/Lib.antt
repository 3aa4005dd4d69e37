pub mod Matching
pub mod Potentials
pub mod work
