pub mod Mentions
pub mod Excerpts
pub mod Inside
pub mod Remarks
pub mod Details
pub mod Properties
