pub mod DepthLaws
pub mod TextLaws
pub mod MeetingLaws
