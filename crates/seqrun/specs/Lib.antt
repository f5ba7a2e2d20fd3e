pub mod Ran
pub mod Stops
