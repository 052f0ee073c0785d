pub mod Separation
pub mod Written
