pub mod ItemLaws
pub mod ListLaws
mod Rows
