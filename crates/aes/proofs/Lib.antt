pub mod Schedule
pub mod Rounds
