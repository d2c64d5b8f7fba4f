pub mod Refusals
pub mod Chunks
