pub mod Numbers
pub mod Loops
pub mod Reader
pub mod Texts
pub mod Outputs
