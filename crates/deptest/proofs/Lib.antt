pub mod Named
pub mod Locals
mod Keeping
pub mod Phased
mod Nested
pub mod Passed
