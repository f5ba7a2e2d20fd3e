pub mod Lines
pub mod Regions
pub mod Counted
pub mod NotKnown
pub mod SinksLaw
