pub mod Views
pub mod Fronts
pub mod RuleSteps
pub mod Ends
pub mod Seats
pub mod HalfMeetings
pub mod Together
pub mod Sent
