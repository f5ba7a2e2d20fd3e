pub mod Orders
pub mod Scans
pub mod Rows
