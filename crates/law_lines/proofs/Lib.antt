pub mod Kept
pub mod Stripped
pub mod Whole
