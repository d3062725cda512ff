pub mod Frames
pub mod Answers
pub mod Top
pub mod Room
pub mod Deferral
pub mod Refusals
pub mod Plain
pub mod Laws
