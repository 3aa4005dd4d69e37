pub mod Row
pub mod Building
pub mod Words
