pub mod Totals
pub mod Calls
pub mod StageLemmas
pub mod KeepsTurns
pub mod Handing
pub mod Turning
pub mod Positions
pub mod Common
