pub mod WalkLaws
mod Rows
