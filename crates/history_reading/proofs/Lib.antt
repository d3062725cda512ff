pub mod Answered
pub mod SentLemmas
pub mod WantedLemmas
mod WorkedLaws
