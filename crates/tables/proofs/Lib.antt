pub mod Below
pub mod Flags
pub mod Places
