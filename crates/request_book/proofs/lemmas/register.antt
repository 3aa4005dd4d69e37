pub mod RegisterLemmas
pub mod StepLemmas
pub mod IndexLemmas
pub mod SealLemmas
pub mod CloseLemmas
pub mod BatchLemmas
pub mod StepTable
