pub mod Equations
pub mod DirectionVectors
pub mod Reached
pub mod Meetings
