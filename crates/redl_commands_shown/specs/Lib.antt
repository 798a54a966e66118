pub mod Formats
pub mod Shown
pub mod List
pub mod Report
pub mod Text
pub mod Page
pub mod Resume
