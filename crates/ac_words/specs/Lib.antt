pub mod Digits
pub mod Grammar
pub mod Shape
pub mod Options
pub mod Asked
pub mod Lawful
