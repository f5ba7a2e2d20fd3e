pub mod Judging
pub mod Telling
pub mod Inside
