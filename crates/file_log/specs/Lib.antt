pub mod Entries
pub mod Log
pub mod Recorded
