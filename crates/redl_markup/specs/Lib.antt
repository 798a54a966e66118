pub mod Reading
pub mod Decoding
pub mod Attributes
pub mod Views
pub mod PieceViews
pub mod Terms
pub mod Inside
