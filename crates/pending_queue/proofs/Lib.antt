pub mod PlainLemmas
pub mod ClassLemmas
pub mod ItemLemmas
pub mod Joining
pub mod Leaving
pub mod QueueLemmas
pub mod Walking
pub mod Replacing
