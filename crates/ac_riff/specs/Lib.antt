pub mod Layout
pub mod Format
pub mod Form
pub mod Refusal
pub mod Pieces
