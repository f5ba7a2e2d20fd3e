pub mod Front
pub mod Classes
pub mod Meant
pub mod Pieces
pub mod Checks
