pub mod Sinks
pub mod Pairs
pub mod Shown
pub mod Refused
pub mod Telling
