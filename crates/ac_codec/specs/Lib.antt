pub mod Codec
pub mod Lists
pub mod Meaning
