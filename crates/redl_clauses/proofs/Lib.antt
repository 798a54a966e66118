pub mod WalkLaws
pub mod ParagraphLaws
pub mod StoryLaws
pub mod ClauseLaws
pub mod HeardLaws
pub mod SignLaws
mod Rows
