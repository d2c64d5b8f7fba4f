pub mod Draws
pub mod Made
