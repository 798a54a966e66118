pub mod Shapes
pub mod Scopes
pub mod Readings
pub mod Stacks
pub mod Errors
pub mod Inside
