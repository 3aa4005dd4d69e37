-- What only the bodies of this crate need.
pub mod Left
pub mod Reading
pub mod Taking
pub mod Walk
