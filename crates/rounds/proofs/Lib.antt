pub mod Words
pub mod Linear
