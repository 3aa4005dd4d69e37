pub mod FleetPlaceLemmas
pub mod FleetRowLemmas
pub mod FleetLemmas
