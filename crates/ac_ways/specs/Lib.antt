pub mod Columns
pub mod Sixteen
