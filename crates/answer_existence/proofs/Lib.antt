mod Answers
mod Compiled
mod Lists
mod Relays
mod Said
mod TurnRelays
mod Words
