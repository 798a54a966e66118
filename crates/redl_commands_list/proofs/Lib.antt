pub mod FormatLaws
pub mod PartNameLaws
pub mod ShownLaws
