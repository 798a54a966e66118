mod MarkLaws
pub mod ViewLaws
mod OpenLaws
mod SplitLaws
pub mod TextLaws
pub mod LendLaws
pub mod MemberLaws
pub mod FindLaws
mod PutLaws
pub mod MendLaws
mod CutSlotLaws
pub mod StepLaws
