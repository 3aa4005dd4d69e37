pub mod Edge
