pub mod Instance
pub mod Moves
pub mod Outcome
pub mod Points
pub mod Told
pub mod Trips
