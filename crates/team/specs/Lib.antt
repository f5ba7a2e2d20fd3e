pub mod ScanStarts
pub mod Passed
pub mod Together
pub mod Waved
pub mod Tasks
