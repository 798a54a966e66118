pub mod ChangeLaws
pub mod PageLaws
pub mod FactLaws
pub mod ReviewerLaws
