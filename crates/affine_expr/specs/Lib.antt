pub mod Forms
pub mod Shapes
pub mod Faults
