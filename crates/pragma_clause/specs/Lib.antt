pub mod Words
pub mod ClauseReader
pub mod DirectiveReader
pub mod ClauseKinds
pub mod Ones
pub mod Outcome
pub mod Views
