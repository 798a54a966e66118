pub mod ChangedLaws
pub mod RemarkLaws
pub mod FullLaws
pub mod JsonLaws
pub mod RowLaws
mod Rows
pub mod WordLaws
mod WordRows
