pub mod FrameLemmas
pub mod ValueLemmas
