pub mod Turning
pub mod Shared
pub mod Staying
pub mod Named
pub mod Spots
