pub mod LineLemmas
pub mod ReplyLemmas
pub mod EntryLemmas
pub mod SummaryLemmas
pub mod Common
