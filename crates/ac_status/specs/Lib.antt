pub mod Lines
pub mod Rises
