pub mod Product
pub mod Hash
pub mod Theorems
