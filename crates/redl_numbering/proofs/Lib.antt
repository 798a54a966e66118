pub mod PlaceLaws
pub mod TextLaws
mod Rows
