pub mod Least
pub mod Listed
pub mod Pairs
pub mod Sendable
