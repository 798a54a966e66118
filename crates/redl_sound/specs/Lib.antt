pub mod Form
pub mod Groups
pub mod Names
pub mod Sound
pub mod Held
