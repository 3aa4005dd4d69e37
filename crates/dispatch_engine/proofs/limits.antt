pub mod Assembly
pub mod Pairing
pub mod Places
pub mod Searches
pub mod Seats
