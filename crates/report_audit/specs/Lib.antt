pub mod report
pub mod points
pub mod lines
pub mod block
pub mod work
