pub mod Kept
pub mod Decided
pub mod Settled
pub mod Staying
