pub mod Loops
pub mod Maps
