pub mod Positive
pub mod Refuse
