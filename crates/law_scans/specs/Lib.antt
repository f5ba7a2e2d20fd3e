pub mod Iterations
pub mod Phases
pub mod Passes
pub mod Scanning
pub mod Rows
