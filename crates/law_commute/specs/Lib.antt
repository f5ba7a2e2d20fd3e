pub mod Steady
pub mod Targets
pub mod Commuting
pub mod Joining
