pub mod Best
pub mod Helds
pub mod Plans
pub mod Slices
pub mod Totals
pub mod Uniform
