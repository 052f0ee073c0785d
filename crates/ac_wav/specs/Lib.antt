pub mod Samples
pub mod Body
pub mod Whole
pub mod Written
