pub mod Sizes
pub mod Needs
pub mod Readings
pub mod Faults
pub mod Refusals
mod Streams
mod Ends
mod Sounds
mod Steps
mod Nexts
mod Emits
mod Loops
