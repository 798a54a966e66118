pub mod Shows
pub mod Takes
pub mod Takings
pub mod Ahead
