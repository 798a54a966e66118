mod Rows
pub mod IdleLaws
pub mod WalkLaws
pub mod LastLaws
pub mod StoryLaws
pub mod MemberLaws
