-- Laws of texts that are read as nodes.
pub mod SameBytes
pub mod Cuts
pub mod Starts
pub mod FoldSteps
pub mod FoldLaws
mod FoldRows
