pub mod Code
pub mod Elements
pub mod Shape
pub mod Parts
pub mod Labels
pub mod Stories
pub mod Inside
