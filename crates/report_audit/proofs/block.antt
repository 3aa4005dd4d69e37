pub mod LawLemmas
pub mod NumberedLemmas
pub mod OutcomeLemmas
pub mod ShapeLemmas
pub mod TellingLemmas
pub mod ToldLemmas
pub mod BlockListsLemmas
