pub mod Asked
pub mod Fields
pub mod Laws
pub mod Packed
pub mod Padding
pub mod Values
