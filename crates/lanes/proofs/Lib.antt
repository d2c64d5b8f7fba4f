pub mod Turns
pub mod Rows
pub mod Laws
pub mod Places
