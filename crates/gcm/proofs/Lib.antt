pub mod Parts
pub mod Refusals
