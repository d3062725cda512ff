pub mod Derived
pub mod Marking
pub mod Starting
