pub mod HalvesAlone
pub mod Stamping
pub mod Work
