pub mod Offsets
pub mod Lists
pub mod PlainLines
pub mod PlainFrames
pub mod Forms
