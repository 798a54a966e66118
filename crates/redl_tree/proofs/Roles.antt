-- Laws of names, of roles, and of how a list of blocks ends.
pub mod Named
pub mod NameLaws
pub mod WordLaws
pub mod AroundLaws
pub mod Fits
pub mod EndLaws
