pub mod Gctr
pub mod Same
