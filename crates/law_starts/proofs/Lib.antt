pub mod Beginning
pub mod Holding
