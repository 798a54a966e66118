pub mod Steps
pub mod Turns
pub mod Runs
pub mod Words
pub mod Fields
pub mod Options
