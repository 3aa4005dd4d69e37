pub mod search
