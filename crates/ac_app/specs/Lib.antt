pub mod Decoded
pub mod Generated
pub mod Run
