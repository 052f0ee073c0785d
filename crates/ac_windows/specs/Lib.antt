pub mod Held
pub mod Packing
pub mod Seen
pub mod Windows
