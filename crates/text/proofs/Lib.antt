pub mod FrontLaw
pub mod Digits
