pub mod ChainLaws
pub mod AheadLaws
mod Rows
