pub mod NextFrame
pub mod FeedTurns
pub mod Reached
pub mod ReadFrames
pub mod Laws
