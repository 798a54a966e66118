-- Laws of the pass and of rules that change stories.
pub mod PassLaws
pub mod GroupLaws
pub mod StoryLaws
pub mod TakenLaws
