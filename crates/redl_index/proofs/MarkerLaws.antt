-- Laws on the markers of moves in a story, and on the ends of its paragraphs.
pub mod Elements
pub mod Rising
pub mod Apart
pub mod Counts
pub mod Free
pub mod Tails
pub mod Finder
pub mod Passing
