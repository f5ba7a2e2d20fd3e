pub mod Known
pub mod Private
