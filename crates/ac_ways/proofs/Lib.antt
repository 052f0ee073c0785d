pub mod Boundaries
mod Counted
pub mod Costing
pub mod Filling
pub mod Narrowing
pub mod Picked
pub mod Ranges
pub mod Totals
