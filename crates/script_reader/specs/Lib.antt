pub mod Grammar
pub mod Heads
pub mod Laws
pub mod Lines
pub mod Parts
pub mod Plain
pub mod Reading
pub mod Tokens
