pub mod Still
pub mod BothEnds
pub mod Promises
pub mod RestLaw
