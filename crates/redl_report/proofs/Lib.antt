pub mod GroupLaws
pub mod KeptGroups
pub mod KindLaws
pub mod KindSums
pub mod JsonLaws
pub mod LineLaws
pub mod ListLaws
pub mod NameLaws
pub mod OwnLaws
mod Rows
