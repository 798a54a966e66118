mod Rows
pub mod FoundLaws
pub mod AlongLaws
pub mod OrderLaws
pub mod OnLaws
pub mod EndLaws
