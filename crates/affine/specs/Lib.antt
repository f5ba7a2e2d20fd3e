pub mod Affine
pub mod Arithmetic
pub mod Limits
pub mod Box
