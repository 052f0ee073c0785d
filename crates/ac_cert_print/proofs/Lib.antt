pub mod Ends
pub mod Nodes
pub mod Spelling
pub mod Writing
