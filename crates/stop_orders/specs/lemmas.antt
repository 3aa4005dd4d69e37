pub mod task
pub mod search
