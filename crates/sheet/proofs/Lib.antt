pub mod Cells
pub mod Columns
