pub mod PlainText
pub mod Idle
pub mod Ends
pub mod Views
pub mod Walks
pub mod Ways
