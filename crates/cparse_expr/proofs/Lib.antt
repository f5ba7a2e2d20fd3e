pub mod LoopLemmas
pub mod RisingLemmas
