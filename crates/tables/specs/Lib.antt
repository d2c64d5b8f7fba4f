pub mod Flagged
pub mod Settled
