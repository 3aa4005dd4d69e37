pub mod Place
pub mod Standing
