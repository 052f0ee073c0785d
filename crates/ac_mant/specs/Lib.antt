pub mod Counts
pub mod Groups
pub mod Laws
pub mod Quantiser
pub mod Unpacking
