pub mod Bars
pub mod Refusals
pub mod Says
pub mod Sessions
pub mod Writing
