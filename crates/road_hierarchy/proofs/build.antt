pub mod Renamed
pub mod Reading
pub mod Checking
pub mod Labelling
pub mod Within
