-- What no public clause of this crate names: how its own code is stated.
pub mod Encoded
pub mod Items
pub mod Places
pub mod Once
