pub mod script
