pub mod Attribute
pub mod Moment
pub mod Stamp
