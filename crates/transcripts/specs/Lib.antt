pub mod TextLines
pub mod Told
pub mod Printed
pub mod Laws
pub mod Lines
pub mod Compared
