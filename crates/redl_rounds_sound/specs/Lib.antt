pub mod Files
pub mod Rounds
pub mod Second
pub mod Settled
pub mod Orders
pub mod Told
