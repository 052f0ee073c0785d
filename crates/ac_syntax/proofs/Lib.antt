pub mod Later
pub mod Whole
pub mod Counted
pub mod Widths
pub mod GroupWidths
pub mod SideLaws
pub mod SideSums
pub mod BlockSide
