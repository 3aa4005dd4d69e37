-- What only the bodies of this crate need.
pub mod report
pub mod points
pub mod lines
pub mod block
