-- What decisions do: fates, properties, joined paragraphs, tables, the pass, and the text that survives it.
pub mod Fates
pub mod Tables
pub mod Restored
pub mod Groups
pub mod Beside
pub mod Pass
pub mod Packages
pub mod Taken
pub mod StoryWalk
pub mod Survivors
