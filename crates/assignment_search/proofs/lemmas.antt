pub mod UniqueLemmas
pub mod FirstFitLemmas
pub mod FirstFitValueLemmas
