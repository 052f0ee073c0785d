pub mod Begun
pub mod Cells
pub mod Framed
pub mod Kept
pub mod Mantissas
pub mod Spells
