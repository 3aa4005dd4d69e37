pub mod CloseLemmas
pub mod LaterLemmas
pub mod LawLemmas
pub mod StepLemmas
