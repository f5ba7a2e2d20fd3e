pub mod Quiet
pub mod Parts
