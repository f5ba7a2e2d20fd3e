pub mod Spots
pub mod Values
pub mod Doing
pub mod Whole
pub mod Printing
pub mod Marks
pub mod Keeping
pub mod Laying
