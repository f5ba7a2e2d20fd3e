pub mod Tallies
pub mod Headings
