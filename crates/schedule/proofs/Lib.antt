pub mod Sized
pub mod Blocks
pub mod Shares
pub mod Owned
pub mod Guided
