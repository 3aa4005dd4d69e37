pub mod CrewLemmas
pub mod FinishLemmas
pub mod PassLemmas
pub mod RoundLemmas
pub mod SameLemmas
