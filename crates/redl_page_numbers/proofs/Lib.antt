pub mod WalkLaws
pub mod StoryLaws
pub mod LevelLaws
pub mod PieceLaws
mod Rows
