pub mod WordsLemmas
pub mod GivenLemmas
