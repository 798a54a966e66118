-- What no public clause of this crate names: how its own code is stated.
pub mod Markers
pub mod Numberings
pub mod Stories
pub mod Tallies
pub mod Sights
pub mod Seeking
pub mod Numberers
pub mod IdleSights
