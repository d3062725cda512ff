pub mod Following
pub mod Ends
pub mod FindLemmas
pub mod Held
pub mod Numbers
mod ShortNames
pub mod WorkedSchema
mod FalseSchemas
