pub mod Outs
pub mod work
