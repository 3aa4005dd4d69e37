pub mod Tree
pub mod Places
pub mod Rounds
pub mod Drive
pub mod Counting
pub mod Serving
