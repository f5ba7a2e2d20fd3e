pub mod Operands
pub mod Placed
