pub mod WithBytes
pub mod DeclarationLemmas
pub mod ConstantLemmas
pub mod ExtentLemmas
pub mod ParseLaw
pub mod KernelLemmas
pub mod Leaving
