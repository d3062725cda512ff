pub mod Calls
pub mod Steps
pub mod Chains
pub mod Nested
pub mod Alone
pub mod Progress
pub mod Laws
