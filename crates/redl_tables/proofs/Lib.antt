pub mod CutLaws
pub mod AskedLaws
pub mod StayLaws
