pub mod LinesLaw
pub mod CutLaw
pub mod SharingLaw
pub mod WithoutLaw
pub mod StandLaw
pub mod TellLaw
pub mod Different
