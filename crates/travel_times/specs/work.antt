pub mod table
pub mod labels
