pub mod Binds
pub mod WordLemmas
pub mod PrintedLemmas
pub mod StepLemmas
pub mod HeadingLemmas
