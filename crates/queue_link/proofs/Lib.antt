mod Stamping
mod Hands
mod Rounds
mod Ends
mod HalvesAlone
mod Sent
