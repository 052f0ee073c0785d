pub mod Blocks
pub mod Frames
pub mod Packed
pub mod Skips
pub mod Spelling
pub mod Unique
