pub mod PieceLemmas
pub mod RowLemmas
pub mod LineReadLemmas
pub mod AsScriptLemmas
