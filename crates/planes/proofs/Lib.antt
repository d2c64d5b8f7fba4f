pub mod Same
pub mod Every
pub mod Rows
pub mod Laws
