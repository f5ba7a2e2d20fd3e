pub mod Machine
pub mod WholeRuns
