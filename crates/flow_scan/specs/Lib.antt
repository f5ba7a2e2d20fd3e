pub mod Lines
pub mod Parts
pub mod Sharing
pub mod Scans
pub mod Laws
pub mod Views
