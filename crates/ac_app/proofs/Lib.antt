pub mod Decodes
pub mod Jobs
pub mod Ends
pub mod Done
pub mod Again
