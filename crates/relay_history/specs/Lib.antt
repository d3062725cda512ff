pub mod HalfSteps
pub mod OneHistory
pub mod OneResult
pub mod Starts
pub mod SidesAlone
pub mod Stamps
pub mod Laws
