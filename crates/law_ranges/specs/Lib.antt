pub mod Laws
pub mod Spaces
