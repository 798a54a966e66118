mod Rows
pub mod PlainLaws
pub mod ViewLaws
pub mod PackageLaws
pub mod IdleLaws
pub mod WalkLaws
pub mod WayLaws
