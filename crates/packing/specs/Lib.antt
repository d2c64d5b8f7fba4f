pub mod Planes
pub mod Theorems
