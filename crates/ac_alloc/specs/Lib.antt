pub mod Codes
pub mod Excitation
pub mod Integration
pub mod Keys
pub mod Masking
pub mod Pointers
