mod Commands
mod Files
mod Topics
mod Values
mod Words
