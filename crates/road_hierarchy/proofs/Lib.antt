pub mod Walks
pub mod Peeling
