pub mod Marks
pub mod Stories
pub mod Decided
pub mod Settled
pub mod Staying
mod Rows
