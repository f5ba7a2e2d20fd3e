pub mod Counters
pub mod Levels
