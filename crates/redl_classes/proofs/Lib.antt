pub mod MergedLaws
pub mod ParentLaws
pub mod TogetherLaws
pub mod JoinLaws
mod Rows
