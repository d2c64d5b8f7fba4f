pub mod Bits
pub mod Circuit
pub mod Theorems
