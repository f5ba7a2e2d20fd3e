pub mod Partial
