pub mod Closing
pub mod Named
pub mod Refusals
pub mod Table
