pub mod Bounds
pub mod Laws
pub mod Least
pub mod Roots
pub mod Steps
pub mod Ways
