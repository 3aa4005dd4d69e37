pub mod ClockLemmas
pub mod DoneLemmas
pub mod VisitLemmas
pub mod DeletionLemmas
