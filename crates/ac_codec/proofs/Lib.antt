pub mod Faithful
pub mod Lengths
pub mod Loops
pub mod Reading
pub mod Sound
pub mod Spelling
