pub mod Frames
pub mod Lines
pub mod Converted
pub mod Steps
pub mod FramesTold
