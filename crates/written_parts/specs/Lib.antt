pub mod Appends
pub mod Attributes
pub mod Types
