pub mod Adding
pub mod Banding
pub mod Readying
pub mod Stepping
