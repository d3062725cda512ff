pub mod Contexts
pub mod Dispatches
pub mod Handlers
pub mod Allowed
pub mod Endings
pub mod Told
pub mod Replays
pub mod Laws
