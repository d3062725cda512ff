pub mod HalfRuns
pub mod RelaySteps
pub mod Relays
pub mod Laws
