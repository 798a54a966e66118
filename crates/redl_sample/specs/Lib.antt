pub mod Blocks
pub mod Packages
pub mod Journals
pub mod Summaries
