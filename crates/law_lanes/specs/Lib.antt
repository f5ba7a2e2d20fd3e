pub mod Reading
pub mod Lanes
pub mod Folds
pub mod Rows
