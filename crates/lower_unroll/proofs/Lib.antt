pub mod Registers
pub mod Copies
pub mod Counts
pub mod Parts
