pub mod CauseLaws
pub mod LimitLaws
pub mod MisuseLaws
pub mod RefusedLaws
