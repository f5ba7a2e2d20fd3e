pub mod Starts
pub mod Ends
pub mod Dealt
pub mod Places
pub mod Overwritten
