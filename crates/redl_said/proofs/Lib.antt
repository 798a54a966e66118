pub mod PhraseLaws
pub mod EvenLaws
pub mod SaidLaws
pub mod IdleLaws
mod PhraseRows
