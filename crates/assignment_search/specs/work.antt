pub mod Apart
pub mod OpenLeaves
pub mod Change
pub mod Found
pub mod Growth
pub mod Lookups
pub mod Next
-- What only the bodies of this crate need.
pub mod Ceiling
pub mod Index
pub mod Size
