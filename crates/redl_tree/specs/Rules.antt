-- The rules of structure, each of a module below: what a package must keep for its revisions to be decided.
pub mod Tests
pub mod CellEnds
pub mod Sound
