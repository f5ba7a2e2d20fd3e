pub mod Blocks
pub mod Sums
pub mod Loaded
pub mod Written
