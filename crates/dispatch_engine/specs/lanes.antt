pub mod Lane
pub mod Locked
pub mod Progress
pub mod Run
pub mod Same
pub mod Shared
