pub mod Styles
pub mod Runs
pub mod Inside
