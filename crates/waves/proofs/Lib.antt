pub mod Earlier
pub mod Known
pub mod Sorted
pub mod Tallies
