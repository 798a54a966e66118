pub mod Signs
pub mod MarkedText
pub mod Members
pub mod Inside
