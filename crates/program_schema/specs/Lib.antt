pub mod Clean
pub mod Laws
pub mod Numbers
pub mod ProtocolRules
pub mod SchemaOf
pub mod Shapes
