mod Texts
mod Packages
mod Words
mod Lines
mod Steps
pub mod Functions
pub mod Signs
pub mod Calls
