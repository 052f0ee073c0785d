pub mod Decoding
pub mod Heard
pub mod Inside
pub mod Separated
pub mod Sound
pub mod Sounding
pub mod Values
