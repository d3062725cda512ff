pub mod Held
pub mod Typed
pub mod Laws
