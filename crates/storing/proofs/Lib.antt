pub mod Claims
pub mod Decisions
