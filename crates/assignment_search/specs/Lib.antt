pub mod Growth
pub mod Change
pub mod Found
pub mod work
pub mod Cheapest
pub mod Index
