pub mod Plain
pub mod Position
pub mod Label
pub mod Ahead
pub mod LabelStore
pub mod Search
pub mod Unlimited
pub mod Cost
