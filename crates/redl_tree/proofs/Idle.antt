-- Laws of idle nodes: what every walk over a story sees of them.
pub mod Tags
pub mod Lists
pub mod Items
pub mod Pass
pub mod Groups
pub mod Roles
pub mod Rules
pub mod Labels
pub mod Stories
pub mod Texts
mod Rows
