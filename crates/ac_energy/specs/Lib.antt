pub mod Coefficients
pub mod Energy
