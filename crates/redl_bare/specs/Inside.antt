-- What no public clause of this crate names: how its own code is stated.
pub mod Escapes
pub mod Views
pub mod Texts
pub mod Idle
pub mod Puts
pub mod UnitLaws
pub mod Taking
pub mod Items
pub mod Stamps
