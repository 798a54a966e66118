pub mod Units
pub mod Around
pub mod Walks
pub mod Members
pub mod Inside
