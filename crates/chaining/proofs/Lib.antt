pub mod Headers
pub mod Chains
