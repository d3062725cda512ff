pub mod Pieces
pub mod Weaker
pub mod EndedAnswers
pub mod OneFile
pub mod Answered
pub mod Views
pub mod Compilations
pub mod FoundAnswers
pub mod TableTexts
pub mod Alike
pub mod AtMostOne
pub mod Gathered
pub mod Found
pub mod Tops
pub mod Runs
pub mod OneTop
pub mod OneReport
pub mod OneScript
pub mod OneRun
pub mod OneFeed
pub mod OneRelay
pub mod OneAudit
pub mod OneExploration
pub mod Scripted
pub mod Feeds
pub mod Summed
mod Charted
mod ChartsAlike
pub mod Relays
mod Audits
