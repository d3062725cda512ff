pub mod Stored
pub mod AnswerLemmas
pub mod RefusalLemmas
pub mod RoomLemmas
pub mod PlainLemmas
