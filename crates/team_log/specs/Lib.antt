pub mod Logged
pub mod Applied
pub mod Printed
pub mod Scanned
pub mod Spots
