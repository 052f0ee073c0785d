pub mod Sums
pub mod Synth
pub mod Loop
