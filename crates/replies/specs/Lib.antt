pub mod Answers
pub mod Written
pub mod Lent
pub mod Theorems
