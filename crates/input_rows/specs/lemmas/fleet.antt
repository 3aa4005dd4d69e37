pub mod NamedFleet
