pub mod Call
pub mod Chunks
