pub mod Fits
pub mod HasType
pub mod Laws
pub mod Shapes
pub mod Sizes
pub mod ValueText
mod ValuesExamples
