pub mod Signs
pub mod Places
pub mod Texts
pub mod Views
pub mod Items
