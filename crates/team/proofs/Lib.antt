pub mod Effects
pub mod Entering
pub mod Texts
pub mod Merging
pub mod TwoPasses
pub mod InWaves
pub mod Lending
