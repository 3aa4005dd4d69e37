pub mod Storage
pub mod Numbering
pub mod Directory
