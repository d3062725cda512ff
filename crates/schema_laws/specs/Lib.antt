pub mod Frames
pub mod Waits
pub mod Runs
pub mod Feeds
pub mod Relays
pub mod Explorations
