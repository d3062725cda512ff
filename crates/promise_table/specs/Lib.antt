pub mod Promises
pub mod Plain
pub mod Laws
mod PromisesExamples
pub mod Nodes
pub mod Links
pub mod Table
