-- Laws of the model of nodes: lists of them, what an element holds, their text, and trees for worked rows.
pub mod Laws
pub mod Held
pub mod KeptLaws
pub mod Texts
pub mod TreeTexts
pub mod Build
