pub mod Faults
pub mod Clauses
pub mod Views
pub mod Lines
pub mod Parallel
pub mod Plain
pub mod Reading
