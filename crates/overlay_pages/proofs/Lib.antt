pub mod Beside
pub mod Gathered
pub mod Lent
pub mod Near
pub mod NumberRows
pub mod Overlays
pub mod Runs
pub mod Tables
