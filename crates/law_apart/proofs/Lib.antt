pub mod Shared
pub mod Undeclared
pub mod Unread
pub mod Kept
pub mod Accepted
pub mod Phased
