pub mod Outcome
pub mod Message
