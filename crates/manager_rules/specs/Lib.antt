pub mod Breaches
pub mod Broken
pub mod InProtocol
pub mod Knowing
pub mod Managers
pub mod Rows
pub mod Sides
pub mod Subjects
