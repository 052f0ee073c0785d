pub mod Answers
pub mod Boards
pub mod Games
pub mod Laws
pub mod Trees
pub mod Walks
pub mod Words
