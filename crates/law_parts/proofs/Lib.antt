pub mod Frames
pub mod Lanes
pub mod Parts
