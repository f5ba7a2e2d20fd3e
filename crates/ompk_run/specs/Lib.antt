pub mod Led
pub mod Outcome
pub mod Ready
pub mod Taken
