pub mod Decoding
pub mod Printing
