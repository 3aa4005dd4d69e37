pub mod Chosen
pub mod Prices
pub mod Relaxation
pub mod SearchTree
pub mod Weights
