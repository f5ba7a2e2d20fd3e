pub mod KnownLemmas
pub mod ReadLemmas
pub mod JudgeLemmas
pub mod PrivatesLemmas
