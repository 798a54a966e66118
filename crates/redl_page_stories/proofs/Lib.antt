mod DocumentRows
mod IdleRows
pub mod PastLaws
pub mod NodeLaws
pub mod StartLaws
pub mod NoteLaws
pub mod EmphasisLaws
pub mod IdleLaws
pub mod MemberLaws
