pub mod Shape
pub mod Order
pub mod Waiting
pub mod Effects
pub mod Answers
pub mod Lawful
pub mod Laws
