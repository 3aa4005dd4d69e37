pub mod Told
pub mod Seen
pub mod Steady
pub mod Notices
