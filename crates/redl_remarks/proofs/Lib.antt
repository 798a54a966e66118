pub mod EditedLaws
pub mod RemarkLaws
