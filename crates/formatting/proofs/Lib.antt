pub mod Counts
pub mod Refusals
pub mod Carries
