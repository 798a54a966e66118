pub mod DateLaws
pub mod SelectionLaws
pub mod LockLaws
pub mod ShownLaws
pub mod RankLaws
pub mod ItemLaws
pub mod SittingLaws
pub mod CommandLaws
