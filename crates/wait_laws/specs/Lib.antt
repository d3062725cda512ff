pub mod Interruptions
pub mod SendableWorlds
