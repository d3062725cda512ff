mod Parts
mod Steps
mod Events
mod Runs
mod Relays
