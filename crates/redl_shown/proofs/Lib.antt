mod Rows
pub mod ShownLaws
