pub mod Silent
pub mod Doacross
pub mod Rising
pub mod Rows
