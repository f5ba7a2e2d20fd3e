pub mod Copies
pub mod Lists
pub mod Meeting
pub mod Walks
