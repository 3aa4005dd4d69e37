pub mod Listing
pub mod RvGraph
pub mod RrGraph
