pub mod Bits
pub mod BlockRows
pub mod Blocks
pub mod Filled
pub mod Groups
pub mod HeadRows
pub mod Known
pub mod Spelled
