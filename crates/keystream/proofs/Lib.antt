pub mod Turns
pub mod Output
