pub mod Rising
pub mod Search
pub mod Nearest
pub mod Sums
pub mod Sent
pub mod Rows
