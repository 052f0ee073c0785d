pub mod Limit
pub mod World
pub mod Emits
