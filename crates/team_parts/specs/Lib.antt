pub mod Abreast
pub mod Around
pub mod Lent
pub mod Parted
pub mod Placed
pub mod Turned
pub mod Window
