pub mod Private
pub mod Lists
pub mod Parallel
pub mod Roles
pub mod Told
pub mod Phases
