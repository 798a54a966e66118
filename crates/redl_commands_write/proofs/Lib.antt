pub mod ChoiceLaws
pub mod JoinLaws
pub mod GoneLaws
