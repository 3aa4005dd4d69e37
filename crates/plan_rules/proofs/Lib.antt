pub mod lemmas
pub mod RowLemmas
pub mod DeadEndLemmas
pub mod Common
