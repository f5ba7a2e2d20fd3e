pub mod Counting
pub mod Covered
pub mod CoveredKernels
pub mod RefusedKernels
pub mod Waved
pub mod WavedKernels
pub mod Rows
