pub mod LaneLemmas
pub mod LockedLemmas
pub mod ProgressLemmas
pub mod RunLemmas
pub mod StandLemmas
