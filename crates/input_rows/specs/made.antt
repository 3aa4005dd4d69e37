pub mod Accepted
pub mod MadeRow
pub mod Part
pub mod Texts
