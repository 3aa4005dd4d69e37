pub mod HeadFaults
pub mod ListLemmas
pub mod StopLemmas
pub mod SignedLemmas
pub mod OneLine
pub mod EntryLineLemmas
pub mod CommandLemmas
