pub mod points
pub mod lines
pub mod block
