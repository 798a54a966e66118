pub mod Names
pub mod Attributes
pub mod Items
pub mod Tags
pub mod Declarations
pub mod Stretches
pub mod Pieces
pub mod Rows
