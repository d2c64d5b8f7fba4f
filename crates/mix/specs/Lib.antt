pub mod Mix
pub mod Theorems
