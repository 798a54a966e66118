-- Markers and moves, and the numbers of revisions.
pub mod Labels
pub mod Moves
pub mod Markers
pub mod Numbers
