pub mod Lexemes
pub mod Names
pub mod Outcome
pub mod Sorts
