pub mod Key
pub mod Words
pub mod Range
pub mod Settings
pub mod lemmas
pub mod work
