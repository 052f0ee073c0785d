pub mod Allocating
pub mod Bodies
pub mod Costs
pub mod Frames
pub mod Listing
pub mod Rows
pub mod Unique
