pub mod Parts
pub mod Lines
mod Rows
pub mod EntryOrder
