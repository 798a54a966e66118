-- The markers of moves in a story, and the ends of its paragraphs.
pub mod Found
pub mod Ends
