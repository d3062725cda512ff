pub mod Lines
pub mod Numbers
mod Worked
