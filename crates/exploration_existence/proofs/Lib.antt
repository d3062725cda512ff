mod AllWords
mod Deciding
mod Exists
