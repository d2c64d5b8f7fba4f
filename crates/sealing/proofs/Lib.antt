pub mod Cells
pub mod Sealed
