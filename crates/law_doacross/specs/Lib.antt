pub mod Covering
pub mod Waving
pub mod Telling
pub mod Rows
