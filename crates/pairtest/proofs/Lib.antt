pub mod Sums
pub mod CounterLists
pub mod Summaries
pub mod Solutions
pub mod OneLoop
