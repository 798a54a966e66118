-- What no public clause of this crate names: how its own code is stated.
pub mod Buildings
pub mod Documents
pub mod Sizes
pub mod Elements
pub mod Passing
