pub mod Stamps
pub mod Grouped
pub mod Numbered
pub mod Sampled
pub mod Locked
