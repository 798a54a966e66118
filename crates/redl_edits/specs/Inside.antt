-- What no public clause of this crate names: how its own code is stated.
pub mod Ends
pub mod Rounds
pub mod Reaches
pub mod Authors
pub mod Said
pub mod Loose
pub mod Known
pub mod Items
pub mod Hearing
pub mod Idle
