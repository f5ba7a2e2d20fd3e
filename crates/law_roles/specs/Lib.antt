pub mod Updates
pub mod Reducing
pub mod Following
pub mod Sharing
pub mod Rows
