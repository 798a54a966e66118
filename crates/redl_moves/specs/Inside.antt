-- What no public clause of this crate names: how its own code is stated.
pub mod Owners
pub mod MarkerIndexes
pub mod Stories
pub mod RangeIndexes
