mod Audits
mod Frames
mod Waits
mod Words
mod Worked
