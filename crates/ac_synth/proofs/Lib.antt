pub mod Whole
pub mod Lawful
pub mod Room
pub mod Made
pub mod Sums
pub mod Steps
pub mod Ends
