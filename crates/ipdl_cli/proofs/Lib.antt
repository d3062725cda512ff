pub mod Statuses
mod Worked
