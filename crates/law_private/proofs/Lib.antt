pub mod Seen
pub mod Alike
pub mod Names
pub mod More
pub mod Own
pub mod Near
pub mod Chunks
pub mod Orders
