pub mod Sites
pub mod Found
pub mod Walk
pub mod Refused
