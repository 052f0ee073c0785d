pub mod Input
pub mod Lines
pub mod Sound
pub mod Stream
pub mod Frames
pub mod Encodes
pub mod Loop
