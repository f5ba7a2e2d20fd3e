pub mod Orders
pub mod Schedules
pub mod Usages
