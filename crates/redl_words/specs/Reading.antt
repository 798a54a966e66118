-- Reading the words of a command line.
pub mod Answers
pub mod Selections
pub mod Locks
pub mod Ranks
pub mod Shown
pub mod Items
pub mod Sittings
pub mod Commands
