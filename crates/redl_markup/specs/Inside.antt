-- What no public clause of this crate names: how its own code is stated.
pub mod Near
pub mod Preserving
pub mod Characters
