pub mod PrivateLemmas
pub mod FaultLemmas
pub mod ParallelLemmas
pub mod ListLemmas
pub mod NestLemmas
pub mod AskedLaw
mod LocalLemmas
