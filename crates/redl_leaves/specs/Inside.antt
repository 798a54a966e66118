-- What no public clause of this crate names: how its own code is stated.
pub mod Cuts
pub mod Marks
pub mod Texts
pub mod Mends
pub mod Splits
pub mod Opens
