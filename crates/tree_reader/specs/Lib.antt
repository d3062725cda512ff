pub mod Ending
pub mod Files
pub mod Machine
pub mod Reading
pub mod Spelling
pub mod Symbols
