pub mod DeadEnd
pub mod Leaf
pub mod Visit
