mod Rows
pub mod EncodeLaws
pub mod LackLaws
pub mod FindLaws
pub mod OrderLaws
pub mod IdLaws
pub mod OnceLaws
