pub mod PlainLaws
pub mod PlainReadings
pub mod PlainTests
pub mod PlainValues
pub mod Texts
