pub mod LoopLaw
pub mod StartsLaw
pub mod ReadingLaw
pub mod PlainLaw
