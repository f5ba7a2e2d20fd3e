pub mod Showing
pub mod Walks
pub mod Same
pub mod Verdicts
pub mod Bodies
pub mod Refusals
mod Writes
mod Lookup
