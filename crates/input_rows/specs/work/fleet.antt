pub mod Place
pub mod FleetRow
