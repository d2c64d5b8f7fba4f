pub mod Numbers
pub mod Structs
