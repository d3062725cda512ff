pub mod Received
pub mod Alone
pub mod AloneRuns
pub mod KeptReplies
pub mod AloneLines
pub mod KeptAlone
pub mod Laws
