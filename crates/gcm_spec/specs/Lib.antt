pub mod Gcm
pub mod Theorems
