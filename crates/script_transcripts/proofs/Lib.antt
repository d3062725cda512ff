pub mod Names
pub mod Texts
pub mod Ends
pub mod Fronts
