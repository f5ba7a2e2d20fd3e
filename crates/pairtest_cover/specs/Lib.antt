pub mod Covered
pub mod Along
pub mod Behind
