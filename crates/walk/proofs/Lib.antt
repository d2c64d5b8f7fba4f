pub mod Pieces
pub mod Kept
pub mod Lines
pub mod Example
pub mod Engine
pub mod Reached
