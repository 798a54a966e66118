pub mod AnswerLaws
pub mod BroughtLaws
mod OwnRows
