pub mod Fault
pub mod lemmas
pub mod work
