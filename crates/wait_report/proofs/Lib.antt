pub mod LeastLists
pub mod SoundValues
pub mod SchemaRows
pub mod Looks
pub mod Complete
pub mod Sorting
pub mod Whole
