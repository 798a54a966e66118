-- What no public clause of this crate names: how its own code is stated.
pub mod Stays
pub mod Passes
pub mod Rounds
pub mod Changes
