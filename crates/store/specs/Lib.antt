pub mod Kept
pub mod Flat
pub mod Placing
pub mod Filling
