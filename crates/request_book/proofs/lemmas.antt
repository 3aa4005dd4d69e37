pub mod values
pub mod register
pub mod notices
pub mod ConsistentLemmas
pub mod NamedLemmas
pub mod LawLemmas
pub mod BookLemmas
