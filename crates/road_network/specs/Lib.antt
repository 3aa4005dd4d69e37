pub mod Walk
pub mod Roads
pub mod Reading
pub mod Storage
pub mod lemmas
pub mod work
