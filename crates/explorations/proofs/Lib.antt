pub mod Alike
pub mod Order
pub mod Points
pub mod Same
mod WorkedText
