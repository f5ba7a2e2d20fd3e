pub mod Chains
pub mod Converted
