mod PromisesLemmas
pub mod PlainLemmas
pub mod Making
pub mod Settled
pub mod TableLemmas
pub mod Found
