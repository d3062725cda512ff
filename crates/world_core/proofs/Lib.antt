mod Histories
mod Chosen
mod RestLoop
mod WordLoop
mod StepProgress
mod EventLines
mod CountsLemmas
mod Held
mod HalfLemmas
mod TakeLines
mod Taking
mod OwnSteps
mod OnTop
mod NextKinds
pub mod Played
mod Turning
mod Delivering
mod Beginning
mod WorldTurns
mod Standing
mod SideChoices
mod OwnRuns
pub mod SplitHalves
mod Meetings
mod Optioning
mod Apart
pub mod KeptEnds
pub mod KeptHalves
mod RelayLoop
mod FeedEnds
mod FeedStates
mod FeedFrames
mod Trying
mod Following
mod Replaying
mod TurnReplays
mod PlainComparing
mod SentContainers
mod SentEnds
mod SharedScripts
pub mod SentHalves
