pub mod Journals
pub mod Order
pub mod Views
pub mod Reading
