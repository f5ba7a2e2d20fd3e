pub mod Without
pub mod Laws
