mod EscapingRows
pub mod EscapingLaws
pub mod PieceLaws
pub mod NumberLaws
