pub mod Moves
pub mod Passes
pub mod Rule
pub mod Turns
pub mod Views
