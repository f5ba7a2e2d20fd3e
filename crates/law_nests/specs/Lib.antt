pub mod Nests
pub mod Walks
pub mod Merging
