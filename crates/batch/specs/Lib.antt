pub mod Batch
pub mod Theorems
