pub mod Codec
pub mod Text
pub mod TreeText
pub mod Views
