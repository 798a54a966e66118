pub mod EveryLaws
pub mod PassLaws
pub mod MarkerLaws
pub mod StoryLaws
pub mod TallyLaws
pub mod IndexLaws
pub mod KindLaws
pub mod SightLaws
pub mod IdleLaws
pub mod SeekerLaws
pub mod LabelLaws
pub mod NumberingLaws
pub mod NumbererLaws
pub mod StoryFactLaws
pub mod SurveyLaws
pub mod ToLabelLaws
pub mod RevisionLaws
pub mod PartLaws
pub mod RootLaws
pub mod AgainLaws
mod Rows
mod RevisionRows
