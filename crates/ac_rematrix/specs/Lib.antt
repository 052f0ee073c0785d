pub mod Energies
pub mod Halves
pub mod Rematrix
