pub mod Bytes
pub mod Window
