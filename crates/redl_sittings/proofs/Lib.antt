pub mod FillLaws
pub mod BesideLaws
pub mod BookLaws
pub mod IdleNumbers
mod Rows
