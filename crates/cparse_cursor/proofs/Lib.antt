pub mod NameLemmas
mod SymbolLemmas
pub mod Turns
