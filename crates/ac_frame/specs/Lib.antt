pub mod Mono
pub mod Plain
pub mod Rows
