pub mod DateLaws
pub mod RemarkLaws
mod RemarkRows
