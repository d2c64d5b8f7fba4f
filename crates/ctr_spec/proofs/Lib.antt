pub mod Xors
pub mod Stream
pub mod Counter
