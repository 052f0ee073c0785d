pub mod Noise
pub mod State
