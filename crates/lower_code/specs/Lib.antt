pub mod Layout
pub mod Meaning
