pub mod Greatest
pub mod Groups
pub mod Least
pub mod Raw
pub mod Spelling
pub mod Steps
pub mod Sums
pub mod Words
