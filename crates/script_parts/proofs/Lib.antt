pub mod TableLemmas
pub mod GivenLemmas
