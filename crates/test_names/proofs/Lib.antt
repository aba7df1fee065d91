pub mod NamedPools
