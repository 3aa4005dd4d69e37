pub mod EntryLemmas
pub mod TakenLemmas
