pub mod Rooms
pub mod Rows
pub mod Writes
pub mod Whole
pub mod Taken
pub mod Exact
