pub mod Mixed
pub mod Going
pub mod Turned
pub mod Variables
pub mod Ordered
pub mod Carried
pub mod Scanned
pub mod Rows
