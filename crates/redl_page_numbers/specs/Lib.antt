pub mod Walks
pub mod Levels
pub mod Package
pub mod Pieces
pub mod Inside
