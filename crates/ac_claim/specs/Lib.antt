pub mod Claims
pub mod Laws
pub mod Potentials
pub mod Tests
pub mod Trees
pub mod Walks
