pub mod TripOrder
pub mod TripSearch
