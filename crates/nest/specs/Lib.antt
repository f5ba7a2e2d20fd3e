pub mod Leaves
pub mod Facts
pub mod Judged
pub mod Nests
pub mod Perfect
pub mod Heads
pub mod Turns
