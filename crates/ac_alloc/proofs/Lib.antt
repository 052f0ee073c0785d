pub mod Exciting
pub mod Folds
pub mod Keyed
pub mod Leaking
pub mod Lists
pub mod Reading
pub mod Rising
pub mod Spans
