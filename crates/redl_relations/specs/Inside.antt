-- What no public clause of this crate names: how its own code is stated.
pub mod Sought
pub mod Parts
pub mod Tables
