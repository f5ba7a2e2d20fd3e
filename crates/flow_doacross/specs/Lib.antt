pub mod Lines
pub mod Bodies
pub mod Nests
pub mod Listed
pub mod Views
pub mod Laws
