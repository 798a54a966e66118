pub mod Said
pub mod Phrases
pub mod Lines
pub mod Ears
pub mod Inside
