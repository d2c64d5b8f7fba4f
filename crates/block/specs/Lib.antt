pub mod Bytes
pub mod Number
