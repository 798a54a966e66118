pub mod ArrayLaws
pub mod DateLaws
pub mod NameLaws
pub mod PlainLaws
mod Rows
