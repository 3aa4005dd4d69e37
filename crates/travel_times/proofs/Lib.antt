pub mod lemmas
pub mod Common
