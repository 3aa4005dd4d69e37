pub mod Visit
pub mod Order
pub mod Task
pub mod Settled
pub mod Sound
pub mod Done
