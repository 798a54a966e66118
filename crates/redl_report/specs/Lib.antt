pub mod Groups
pub mod Reports
pub mod Counts
pub mod Texts
pub mod Tables
pub mod Sums
