pub mod Channels
pub mod Drawn
pub mod Filling
pub mod Floors
