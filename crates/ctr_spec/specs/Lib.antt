pub mod CounterMode
pub mod Theorems
