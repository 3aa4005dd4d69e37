pub mod Rest
pub mod Walk
pub mod Day
pub mod Entering
pub mod Driven
pub mod Counts
pub mod work
pub mod Promises
