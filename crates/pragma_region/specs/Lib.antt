pub mod Regions
pub mod Listed
pub mod Counted
pub mod NotKnown
