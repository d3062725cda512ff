pub mod Rows
pub mod Spelled
pub mod Typed
mod ReadAlike
mod Begun
mod HeldAlike
pub mod LinesAlike
pub mod Alike
pub mod OneList
pub mod OneText
pub mod WaitsAlike
mod RowsAlike
mod ValuesAlike
mod SendsAlike
mod AnswersAlike
mod DeliveriesAlike
mod TakesAlike
mod ReturnsAlike
mod TermsAlike
pub mod StepsAlike
pub mod EventsAlike
pub mod PicksAlike
pub mod ChoicesAlike
mod HalvesAlike
pub mod FeedsAlike
pub mod RelaysAlike
pub mod TextsAlike
mod NamedAlike
mod FitsAlike
mod BlocksAlike
mod BrokenAlike
pub mod ScriptsAlike
pub mod ExplorationsAlike
