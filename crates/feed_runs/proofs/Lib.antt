pub mod FeedRuns
mod WorkedFeeds
