pub mod Fronts
pub mod LinkRule
pub mod Steps
pub mod Seats
pub mod Passes
pub mod Meetings
pub mod Work
pub mod Runs
