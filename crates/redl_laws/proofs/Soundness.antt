-- The law of soundness: each rule of structure holds of what a pass leaves of a package in which all of them hold.
pub mod AlikeTags
pub mod Ancestors
pub mod Walk
pub mod ShutLists
pub mod TopLaws
pub mod Properties
pub mod RowLaws
pub mod PartLaws
pub mod Rules
pub mod Ends
pub mod AllRules
