pub mod Coordinate
pub mod Coupling
