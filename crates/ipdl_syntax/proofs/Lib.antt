pub mod Declarations
pub mod Worked
pub mod WorkedPrograms
