pub mod Logging
pub mod Applying
pub mod Combining
pub mod Entering
pub mod Texts
pub mod Standing
