pub mod Keyed
pub mod Command
