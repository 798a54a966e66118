pub mod Selections
pub mod Shown
pub mod Items
pub mod Sittings
pub mod Commands
pub mod Views
pub mod Reading
