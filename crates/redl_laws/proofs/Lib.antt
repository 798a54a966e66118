pub mod Survival
pub mod Soundness
pub mod OneRole
pub mod Leaves
mod Rows
