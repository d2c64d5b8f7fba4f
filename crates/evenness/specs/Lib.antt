pub mod Runs
pub mod Orders
pub mod Evenness
