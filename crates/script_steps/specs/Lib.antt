pub mod Choices
pub mod Laws
pub mod NextEvent
pub mod Progress
pub mod Turns
