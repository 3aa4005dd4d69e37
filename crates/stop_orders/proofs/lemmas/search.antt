pub mod PlainLemmas
pub mod ScanLemmas
