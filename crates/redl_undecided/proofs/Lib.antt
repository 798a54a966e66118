pub mod MarkLaws
pub mod MiddleLaws
