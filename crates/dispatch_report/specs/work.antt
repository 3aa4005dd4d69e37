-- What only the bodies of this crate need.
pub mod Lines
pub mod Block
pub mod Named
