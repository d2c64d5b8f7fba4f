pub mod Stages
pub mod Counting
pub mod Served
