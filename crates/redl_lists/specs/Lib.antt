pub mod Named
pub mod Values
pub mod Parts
pub mod Levels
pub mod Tables
pub mod Owns
pub mod Inside
