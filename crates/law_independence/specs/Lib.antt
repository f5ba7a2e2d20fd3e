pub mod Inside
pub mod IndependenceLaws
pub mod Said
pub mod OrderLaws
pub mod Parallel
pub mod ConflictLaws
