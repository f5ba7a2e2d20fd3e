pub mod Lowered
pub mod Roles
