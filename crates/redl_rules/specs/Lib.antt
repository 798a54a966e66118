pub mod Attributes
pub mod Rounds
pub mod Keeping
pub mod Answers
pub mod Visiting
pub mod Inside
