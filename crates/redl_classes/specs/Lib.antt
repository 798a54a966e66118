pub mod Together
pub mod Least
pub mod Inside
