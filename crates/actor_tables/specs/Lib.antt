pub mod Marked
pub mod Numbered
pub mod Parts
pub mod SchemaSource
pub mod TableText
