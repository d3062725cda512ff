pub mod Breaches
pub mod Broken
pub mod Gathered
pub mod Messages
