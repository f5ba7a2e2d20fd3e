pub mod Totals
pub mod Counts
pub mod Keeps
pub mod Seats
pub mod Rising
