pub mod Filling
pub mod Later
pub mod Latest
pub mod Sent
