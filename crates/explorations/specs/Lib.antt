pub mod Words
pub mod Explorations
pub mod Seen
pub mod Text
pub mod Laws
