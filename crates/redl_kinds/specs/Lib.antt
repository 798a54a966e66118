pub mod Kinds
pub mod KindNames
pub mod Groups
pub mod Selections
pub mod Views
pub mod Locks
