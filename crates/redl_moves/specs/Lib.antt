pub mod Marks
pub mod Keys
pub mod Places
pub mod Opens
pub mod Standing
pub mod Starts
pub mod Inside
