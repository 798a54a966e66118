pub mod Books
pub mod Held
pub mod Opened
