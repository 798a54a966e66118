pub mod KindNameLaws
mod Rows
