pub mod TopLaws
pub mod OutcomeLaws
pub mod WordLaws
pub mod PlanLaws
pub mod FormatLaws
pub mod LeftLaws
pub mod SampleLaws
pub mod SittingLaws
pub mod AnyOrderLaws
mod SittingOrderLaws
