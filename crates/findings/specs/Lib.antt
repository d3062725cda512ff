pub mod Adds
pub mod Gains
pub mod Laws
pub mod Order
pub mod Repeats
pub mod Report
