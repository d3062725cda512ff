pub mod LeastValues
pub mod SendableParts
pub mod SendableRuns
pub mod Moments
pub mod TakeLines
pub mod Interruptions
