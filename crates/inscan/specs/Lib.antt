pub mod InFront
pub mod Passes
