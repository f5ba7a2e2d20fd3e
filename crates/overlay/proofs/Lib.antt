pub mod Back
pub mod Chunked
pub mod Going
pub mod Joining
pub mod Low
pub mod Slices
pub mod Standing
pub mod Telling
