pub mod Products
pub mod Whole
pub mod Divisors
pub mod Terms
pub mod Lookups
pub mod Values
pub mod Ranges
