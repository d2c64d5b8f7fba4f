pub mod State
pub mod Claims
pub mod Answers
