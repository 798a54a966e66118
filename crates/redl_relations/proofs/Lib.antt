mod Rows
pub mod Laws
