pub mod Along
pub mod Chunks
pub mod Ending
pub mod Positions
pub mod Running
pub mod Spots
pub mod Unwritten
pub mod Walking
