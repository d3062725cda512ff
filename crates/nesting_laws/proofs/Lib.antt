pub mod Beside
pub mod Exchanges
pub mod Deferrals
pub mod NestedSteps
pub mod AloneSteps
pub mod Replies
pub mod GivingWay
pub mod Progress
pub mod Farewells
mod Worked
