pub mod OpenedFiles
pub mod Streams
