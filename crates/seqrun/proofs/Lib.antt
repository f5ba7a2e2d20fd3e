pub mod StateLemmas
pub mod WriteLemmas
pub mod PrintLemmas
pub mod RunLemmas
pub mod BlockLemmas
pub mod Counting
