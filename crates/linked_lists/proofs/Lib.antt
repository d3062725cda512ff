pub mod NeighbourLemmas
pub mod KeyTest
pub mod ChainLemmas
pub mod ChosenLemmas
pub mod Walks
