pub mod Refused
pub mod Laws
