pub mod EndLaws
pub mod IdleLaws
pub mod KidLaws
pub mod KeptLaws
pub mod RuleLaws
pub mod DeclarationLaws
pub mod ChangeLaws
pub mod KeeperLaws
pub mod PassLaws
pub mod StoryLaws
mod Rows
