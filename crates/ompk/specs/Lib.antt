pub mod Refused
pub mod Judged
pub mod Inside
