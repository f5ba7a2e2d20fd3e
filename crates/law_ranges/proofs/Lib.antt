pub mod Round
pub mod Turning
pub mod Within
pub mod Reaching
pub mod Running
