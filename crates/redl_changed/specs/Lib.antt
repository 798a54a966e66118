pub mod Paths
pub mod Leaves
pub mod Kept
pub mod Changed
