pub mod Books
pub mod OneFile
pub mod Joined
pub mod Alike
pub mod Bounds
pub mod Packages
pub mod Mapped
pub mod Resumed
pub mod Second
pub mod TakenAgain
pub mod Told
mod TakenRows
pub mod EmptyMoves
pub mod Settled
pub mod Orders
