pub mod Reduced
pub mod Updates
