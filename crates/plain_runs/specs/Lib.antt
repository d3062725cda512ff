pub mod PlainEnds
pub mod Laws
