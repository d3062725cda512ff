pub mod Feedless
pub mod Lines
pub mod Parts
pub mod Comparing
mod FirstLines
