pub mod RvGraph
pub mod RrGraph
