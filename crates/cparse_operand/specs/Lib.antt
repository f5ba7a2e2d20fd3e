pub mod Infixes
pub mod Operands
pub mod OperandViews
pub mod Operations
