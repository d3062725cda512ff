pub mod Built
pub mod Gathered
pub mod Names
pub mod SameTypes
pub mod Standing
mod TableLemmas
mod Told
pub mod TermFit
pub mod ValidActions
pub mod ValidBlocks
pub mod Validity
pub mod Whole
