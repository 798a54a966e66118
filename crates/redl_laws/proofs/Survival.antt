-- The law of survival: the text pieces of what a pass leaves are the survivors of the original, each once and in its order.
pub mod Stories
pub mod Indexed
pub mod BeforeLaws
