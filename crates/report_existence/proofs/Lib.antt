pub mod Finite
pub mod Lists
pub mod Ordered
pub mod Sorted
