pub mod Fronts
pub mod Texts
pub mod Printed
pub mod TextLaw
