pub mod Arcs
pub mod Near
pub mod Search
