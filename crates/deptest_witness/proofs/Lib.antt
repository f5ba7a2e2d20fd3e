pub mod Indexes
pub mod Entering
pub mod Finding
pub mod Meetings
