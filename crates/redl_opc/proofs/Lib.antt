pub mod PartLaws
pub mod LabelLaws
pub mod UnnamedLaws
pub mod StoryLaws
pub mod NumberLaws
pub mod WalkLaws
