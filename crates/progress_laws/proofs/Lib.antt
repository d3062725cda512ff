pub mod Weighing
pub mod WeighedParts
pub mod Heads
pub mod WeighedSteps
pub mod WeighedRuns
pub mod ComingToRest
pub mod EmptyWorlds
pub mod ClosedNames
pub mod RestingWorlds
pub mod Members
pub mod HeldResolvers
pub mod HeldSteps
pub mod HeldDeliveries
pub mod AskedSteps
pub mod UnderWay
pub mod PromisesUnderWay
pub mod WorkedSchema
mod Worked
