pub mod lemmas
pub mod TableLemmas
pub mod FaultLemmas
pub mod NumberLemmas
pub mod NumberingLemmas
