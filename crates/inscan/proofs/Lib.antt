pub mod Begun
pub mod Passed
