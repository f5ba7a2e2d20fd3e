pub mod Sorting
pub mod Table
pub mod Wanted
