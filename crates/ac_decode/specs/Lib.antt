pub mod Stream
pub mod Sound
pub mod Lines
pub mod Looks
pub mod Leaves
pub mod Known
pub mod Loop
