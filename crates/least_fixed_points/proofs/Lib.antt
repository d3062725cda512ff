pub mod Growth
pub mod Visited
pub mod Rows
pub mod Working
