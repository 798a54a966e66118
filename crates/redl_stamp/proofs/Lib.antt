pub mod Quotients
mod AttributeLaws
pub mod WrittenLaws
mod MomentRows
