pub mod Views
pub mod Known
pub mod Lines
