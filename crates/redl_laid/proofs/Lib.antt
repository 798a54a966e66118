pub mod FoldFronts
pub mod FrontLaws
