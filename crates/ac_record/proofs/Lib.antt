pub mod Blocks
pub mod Heads
pub mod Leading
pub mod Mantissas
pub mod Whole
