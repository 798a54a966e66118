pub mod NoteLaws
mod NoteRows
pub mod AskLaws
