pub mod ArrivedItems
pub mod Compression
pub mod DeferralContext
pub mod Plain
pub mod Laws
mod CompressionExamples
mod DeferralContextExamples
pub mod Nodes
pub mod Classes
pub mod Alike
pub mod Links
pub mod Queue
pub mod Walk
