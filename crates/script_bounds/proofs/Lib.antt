pub mod Blocks
pub mod Acting
pub mod Bounds
