pub mod Codes
pub mod Growing
pub mod Loops
pub mod Numbers
pub mod Offsets
pub mod Reading
pub mod Sound
pub mod TreeSound
