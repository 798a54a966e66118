-- What no public clause of this crate names: how its own code is stated.
pub mod Ranks
pub mod Numbers
pub mod Places
pub mod Latest
