pub mod MentionLaws
pub mod FlatLaws
pub mod TellLaws
pub mod MemberLaws
pub mod AroundLaws
mod Rows
pub mod DetailLaws
