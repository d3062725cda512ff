pub mod Terms
pub mod CaseRuns
pub mod Rest
pub mod Room
pub mod Leaves
pub mod Shows
pub mod NextSteps
pub mod ValidBlocks
pub mod Progressing
pub mod Handlers
pub mod KeptRuns
pub mod Contexts
pub mod Possible
pub mod Changes
pub mod Tells
pub mod TextChoices
pub mod Growth
mod Worked
