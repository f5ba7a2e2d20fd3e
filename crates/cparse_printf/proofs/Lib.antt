pub mod FormatLemmas
pub mod FillLemmas
