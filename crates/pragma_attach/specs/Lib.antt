pub mod Faults
pub mod Standing
pub mod Opened
pub mod Attached
pub mod Resolved
pub mod Told
pub mod Rightly
