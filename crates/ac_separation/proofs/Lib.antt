pub mod Fixtures
pub mod Rematrixing
pub mod Spans
pub mod Subbands
pub mod Uncoupling
pub mod Writing
