pub mod KeyedLemmas
pub mod KeptLemmas
