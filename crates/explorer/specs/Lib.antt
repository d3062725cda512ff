pub mod Places
pub mod Offers
pub mod Numbering
pub mod Searched
pub mod Keys
pub mod Runs
pub mod Searching
