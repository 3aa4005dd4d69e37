pub mod vehicle
pub mod pairs
pub mod batch
pub mod lemmas
pub mod work
