pub mod Accepted
pub mod Fit
pub mod Given
pub mod Handed
pub mod Made
pub mod View
pub mod Waved
