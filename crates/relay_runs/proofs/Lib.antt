pub mod Sides
pub mod HalfRuns
pub mod TurnEnds
pub mod TurnSteps
mod WorkedRelays
mod WorkedStarts
