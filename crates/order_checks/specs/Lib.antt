pub mod Answered
pub mod Waiting
pub mod EffectTests
pub mod AnswerTests
pub mod OrderTests
pub mod Walk
