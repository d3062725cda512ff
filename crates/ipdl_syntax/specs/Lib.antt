pub mod Grammar
pub mod Parts
pub mod Program
pub mod Programs
pub mod Units
