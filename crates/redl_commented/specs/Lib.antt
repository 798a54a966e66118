pub mod Ranges
pub mod Orders
pub mod On
pub mod Package
pub mod Inside
