pub mod Rows
pub mod Texts
pub mod Words
pub mod Changed
pub mod Remarks
pub mod Full
