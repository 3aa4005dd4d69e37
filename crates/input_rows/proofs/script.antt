pub mod RangeLemmas
pub mod GroupLemmas
pub mod ScriptLemmas
pub mod HeaderLemmas
