pub mod LeafLaws
mod Rows
