pub mod Products
pub mod Zipped
pub mod Written
pub mod Sides
pub mod Covering
pub mod Sums
pub mod Apart
pub mod Leading
