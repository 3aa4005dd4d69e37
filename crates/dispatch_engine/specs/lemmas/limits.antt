pub mod NamedPromises
