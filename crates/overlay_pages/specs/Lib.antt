pub mod NumberRows
pub mod Over
pub mod Runs
pub mod Seen
pub mod Table
