pub mod table
pub mod search
pub mod labels
pub mod lemmas
pub mod work
