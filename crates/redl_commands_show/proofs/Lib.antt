pub mod LockLaws
pub mod PageLaws
pub mod TextLaws
