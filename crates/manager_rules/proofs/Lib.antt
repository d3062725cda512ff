pub mod Bonds
pub mod Counted
pub mod Cycles
pub mod Found
pub mod Gathered
pub mod Listed
pub mod Spread
pub mod Texts
