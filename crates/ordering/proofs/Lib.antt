pub mod Exits
pub mod Limit
pub mod Turns
