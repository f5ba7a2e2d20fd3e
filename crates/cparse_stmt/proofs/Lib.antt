pub mod ItemLemmas
pub mod ItemRun
pub mod Leaving
