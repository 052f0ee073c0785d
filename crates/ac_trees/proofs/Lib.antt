pub mod Certifying
pub mod Growing
pub mod Leaving
pub mod Passing
pub mod Standing
