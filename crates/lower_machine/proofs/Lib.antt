pub mod Texts
pub mod Course
pub mod Sizes
pub mod Masks
pub mod Exchanged
