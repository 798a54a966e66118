mod Rows
pub mod SignLaws
pub mod WalkLaws
pub mod PlaceLaws
pub mod TextLaws
