pub mod Between
pub mod Prefixes
