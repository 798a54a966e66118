pub mod Idle
pub mod Inside
