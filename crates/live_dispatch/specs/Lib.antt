pub mod Closing
pub mod Desk
pub mod Live
pub mod Phase
pub mod work
