pub mod Marks
pub mod Units
pub mod Fields
pub mod Package
pub mod BareText
pub mod Inside
