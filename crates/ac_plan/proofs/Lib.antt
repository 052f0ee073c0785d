pub mod Floors
pub mod Passing
pub mod Beside
pub mod Plans
pub mod Uniforms
