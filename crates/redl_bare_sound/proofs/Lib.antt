pub mod Splits
pub mod MarkSplits
pub mod Names
pub mod Injective
pub mod PackageNames
