mod Rows
pub mod PieceLaws
pub mod Utf8Laws
