pub mod Consistency
pub mod Costs
