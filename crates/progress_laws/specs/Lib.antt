pub mod Acts
pub mod Weights
pub mod Progress
pub mod Rest
pub mod Promises
