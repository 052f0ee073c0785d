pub mod Leaves
pub mod Made
pub mod Nodes
