pub mod Past
pub mod Told
pub mod Whole
pub mod work
