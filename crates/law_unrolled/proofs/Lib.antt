pub mod Apart
pub mod Instructions
pub mod Seen
