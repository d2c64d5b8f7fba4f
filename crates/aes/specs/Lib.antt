pub mod KeyExpansion
pub mod Cipher
pub mod Theorems
