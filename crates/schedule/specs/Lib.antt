pub mod Chunk
pub mod Cut
pub mod Part
pub mod Sched
