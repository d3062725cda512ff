pub mod Least
pub mod Decisions
pub mod Derivations
mod Sights
pub mod Texts
pub mod Names
pub mod Defined
