pub mod Dates
pub mod Formats
pub mod Fields
