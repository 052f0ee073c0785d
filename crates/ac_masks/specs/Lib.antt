pub mod Adding
pub mod Densities
pub mod Steps
pub mod Bases
