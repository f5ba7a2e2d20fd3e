pub mod Leaving
