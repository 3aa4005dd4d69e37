pub mod OnePlan
pub mod Verdict
