pub mod Units
pub mod Members
pub mod Walks
pub mod Stories
pub mod Inside
