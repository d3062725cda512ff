pub mod Sets
pub mod Breached
pub mod Whole
