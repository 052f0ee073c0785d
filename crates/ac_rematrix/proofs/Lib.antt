pub mod Everywhere
pub mod Halved
pub mod Sums
pub mod Walk
