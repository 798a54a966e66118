mod Rows
pub mod StampLaws
pub mod StartLaws
pub mod LineLaws
pub mod CleanLaws
pub mod TextLaws
pub mod FieldLaws
pub mod TextPuts
pub mod IdleLaws
pub mod WalkLaws
