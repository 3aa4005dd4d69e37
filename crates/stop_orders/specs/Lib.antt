pub mod task
pub mod PairList
pub mod Laws
pub mod lemmas
pub mod work
