pub mod Lists
pub mod Common
pub mod lemmas
