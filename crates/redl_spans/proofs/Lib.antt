mod Rows
pub mod StepLaws
pub mod MemberLaws
pub mod WalkLaws
pub mod IdleLaws
pub mod StoryLaws
