pub mod Faults
pub mod Source
pub mod Sink
pub mod Views
pub mod StdSource
pub mod Table
pub mod lemmas
pub mod work
