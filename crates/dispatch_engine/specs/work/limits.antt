pub mod Promised
pub mod Requests
pub mod Settling
