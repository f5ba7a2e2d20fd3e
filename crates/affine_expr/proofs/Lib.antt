pub mod Trees
pub mod Keeping
pub mod Shaping
