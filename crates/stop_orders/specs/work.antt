pub mod task
pub mod search
pub mod PairList
