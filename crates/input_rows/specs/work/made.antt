pub mod Some
pub mod Written
