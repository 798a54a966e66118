pub mod Undecided
pub mod Middles
pub mod Sums
pub mod Idle
