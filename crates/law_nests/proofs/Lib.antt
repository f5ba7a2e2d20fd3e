pub mod Steadied
pub mod Onward
pub mod Nested
pub mod Joined
pub mod Walked
pub mod Merged
