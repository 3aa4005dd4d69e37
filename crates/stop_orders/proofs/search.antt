pub mod AheadLemmas
pub mod CandidateLemmas
pub mod CostLemmas
pub mod LabelLemmas
pub mod SearchLemmas
pub mod UnlimitedLemmas
