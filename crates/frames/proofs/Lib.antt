pub mod Pairs
pub mod Frames
